-- The lines of saddles, and the lists by which saddles and ends are known.
pub mod Lines
