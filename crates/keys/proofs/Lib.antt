-- The nine posts round a post; keys as numbers.
pub mod Nine
pub mod KeyNumbers
