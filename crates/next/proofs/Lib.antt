-- The order in which a post looks at the posts round it; next as a scan of the places; the corners that a scan may look at; three groups of places; keys.
pub mod Onward
pub mod Scanned
pub mod Distances
mod Cells
pub mod Corners
mod Groups
pub mod Keyed
