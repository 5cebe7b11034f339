-- What the keys round a post are, and what one tells.
pub mod Keys
