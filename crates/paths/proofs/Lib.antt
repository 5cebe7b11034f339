-- Paths that come to an end, and the order in which posts and rows are met.
pub mod Shorter
mod Turns
