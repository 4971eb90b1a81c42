pub mod Wave
pub mod Words
pub mod Fields
pub mod Timing
pub mod Kept
pub mod Printing
