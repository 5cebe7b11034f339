-- Lists of paths that rise, and bodies merged in them.
pub mod Forest
pub mod Merging
