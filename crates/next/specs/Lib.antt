-- Next by a scan of the places round a post.
pub mod Scan
