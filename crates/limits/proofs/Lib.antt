-- What the rows of the table come to, case by case.
pub mod Table
