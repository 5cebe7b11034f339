-- What the parts of a survey and of a re-shoot share.
pub mod Leading
pub mod Told
