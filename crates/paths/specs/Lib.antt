-- What the functions promise each other: the paths that a list of next posts makes.
pub mod Paths
