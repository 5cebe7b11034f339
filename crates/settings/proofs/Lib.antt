-- Laws about the entries of a sheet, for the proofs of this crate.
mod Walk
mod Says
mod Sheets
