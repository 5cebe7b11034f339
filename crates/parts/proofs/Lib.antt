-- Where the paths that lists of next posts make end.
pub mod Descents
