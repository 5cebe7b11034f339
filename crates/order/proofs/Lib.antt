-- One comparison of heights settles the order of two posts of which it is known which is lower where they are level; places among nine posts tell that.
pub mod Level
pub mod Places
