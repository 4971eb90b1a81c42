pub mod Destinations
pub mod Values
pub mod Sources
pub mod Places
pub mod Ranges
