pub mod Tree
pub mod Names
pub mod Scopes
pub mod Bounds
pub mod Expansion
pub mod Meaning
