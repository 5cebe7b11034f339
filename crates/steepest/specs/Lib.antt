-- What the steepest key of a block is.
pub mod Slopes
