-- What rows of flags tell of the posts, and the flags at the top row.
pub mod Told
pub mod Turned
mod Top
