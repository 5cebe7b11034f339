-- Text in a lent list, and the digits of a number.
pub mod Writing
