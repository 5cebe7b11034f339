-- What the functions promise each other: lists filled with next posts.
pub mod Filled
