-- The runs of a ring; the choice among vertices; a saddle and its ring.
pub mod Running
pub mod Sloping
pub mod Ringed
