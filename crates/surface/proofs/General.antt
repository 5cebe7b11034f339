-- Facts about truth values, rounding, sums, lists and orders.
pub mod Bools
pub mod Rounding
pub mod Words
pub mod Sum
pub mod Bounds
pub mod Circles
pub mod ListOf
pub mod Tables
pub mod FirstNot
pub mod Stores
pub mod Order
pub mod Lex
pub mod Slices
pub mod Slopes
