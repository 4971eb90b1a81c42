pub mod Attributes
pub mod Describing
pub mod Names
