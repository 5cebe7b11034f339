-- What stores and comparisons say of rows of flags; the row below a row.
pub mod Beneath
pub mod Stored
