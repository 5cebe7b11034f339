-- What the functions promise each other: where every post leads, and what the sweep is lent.
pub mod Swept
