-- Laws on lists, for the proofs of this crate; those of a file's posts also for the callers of `posts_in`.
pub mod Posts
mod Stores
