-- What a count of marks gives.
pub mod Tally
