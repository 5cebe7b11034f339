-- A walk of a plot, and the answers of the calls.
pub mod Walks
pub mod Told
