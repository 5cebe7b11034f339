-- Laws of lists that are filled with next posts.
pub mod Filled
