-- What the functions promise each other: the posts at places round a post, and where upper runs start.
pub mod Starts
