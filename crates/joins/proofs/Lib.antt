-- Joins by patterns and splits.
pub mod Patterned
