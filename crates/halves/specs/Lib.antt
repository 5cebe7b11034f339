-- The halves of patterns, by rows of flags.
pub mod Halves
