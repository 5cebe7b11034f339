-- The sweep over the saddles.
pub mod Sweeping
