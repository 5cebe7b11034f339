-- Walks of a plot.
pub mod Walking
