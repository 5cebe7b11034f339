-- What the functions promise each other.
pub mod Bands
