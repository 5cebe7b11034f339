-- The pairs of a pattern, as the code works them out.
mod Paired
