-- What the first rows of the table leave; a block of marks stored afresh.
mod Marked
mod Painted
