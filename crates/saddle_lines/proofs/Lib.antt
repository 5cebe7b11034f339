-- The lines of a saddle, and those of one post after the other.
mod Saddles
pub mod Chunks
