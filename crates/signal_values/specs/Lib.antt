pub mod Amounts
pub mod Fields
pub mod Readings
pub mod Spelling
pub mod Texts
