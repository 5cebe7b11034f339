-- Laws on plain numbers and lists, for the proofs of this crate.
mod Found
mod Numbers
