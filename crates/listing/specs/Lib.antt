-- The start of a listing.
pub mod First
