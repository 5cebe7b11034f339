-- What the functions that write text into a lent list ask, and what they leave there.
pub mod Wrote
