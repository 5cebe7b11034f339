-- What the functions of one post ask of their arguments, and what they work out on the way to a ring.
pub mod Corners
pub mod Rings
pub mod Rows
