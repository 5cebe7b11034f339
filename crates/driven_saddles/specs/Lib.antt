-- What the functions promise each other: saddles collected as driven.
pub mod Collected
