pub mod Coming
pub mod Counted
pub mod Following
pub mod Keeping
pub mod Ordered
pub mod Sameness
pub mod Stepping
