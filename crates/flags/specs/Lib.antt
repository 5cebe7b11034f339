-- What rows of flags tell.
pub mod Rows
