-- The neighbours of a post and its ring, as the code works them out.
pub mod Around
pub mod Rings
pub mod Rows
