-- Entries of the table of starts, and the posts of a plot where runs start.
pub mod Entries
pub mod Placed
