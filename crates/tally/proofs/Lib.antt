-- Counts and sums of a list, part by part.
pub mod Parts
