-- Laws on plain numbers, for the proofs of this crate.
mod Bits
