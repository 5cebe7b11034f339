-- The height order, diagonals and picks of a plot are such as the laws over any order ask for.
pub mod Driven
pub mod HeightOrder
pub mod Counted
pub mod Steepest
pub mod Instance
pub mod Joins
pub mod Patterns
pub mod Redrawn
pub mod Moved
pub mod Codes
pub mod SurveyFile
