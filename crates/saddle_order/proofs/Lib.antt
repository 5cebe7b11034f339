-- The order that heights and their digits tell, and saddles sorted by it.
mod Counted
mod Sorting
