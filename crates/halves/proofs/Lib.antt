-- Halves by pairs, and how large they are.
pub mod Halves
