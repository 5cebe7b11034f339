-- The saddles in order, and what the functions promise each other.
pub mod Ascending
pub mod Keys
