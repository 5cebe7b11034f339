-- What the functions promise each other: a list of paths that rise, and bodies merged in it.
pub mod Merges
