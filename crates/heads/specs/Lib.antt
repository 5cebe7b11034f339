-- Where the patterns stand at the head of a row.
pub mod Heads
