pub mod Values
pub mod Reading
pub mod Printing
pub mod Ranges
