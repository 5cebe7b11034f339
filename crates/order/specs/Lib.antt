-- How level posts round a post are told apart by one number.
pub mod Ties
