pub mod Bounds
pub mod Numbered
pub mod Parts
pub mod Sets
pub mod Steps
pub mod Tagging
