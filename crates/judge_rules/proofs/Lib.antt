mod Products
mod Prefixes
pub mod Ranges
mod Spelling
