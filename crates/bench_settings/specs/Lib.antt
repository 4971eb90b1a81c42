pub mod Lawful
pub mod Placing
pub mod Kept
