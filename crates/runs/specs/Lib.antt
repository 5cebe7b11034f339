-- The order of a choice among vertices; a saddle, and where its lines go to.
pub mod Slopes
pub mod Runs
