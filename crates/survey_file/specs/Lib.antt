-- What the contracts of this crate cite beside those of `surface`.
pub mod Layout
pub mod Told
