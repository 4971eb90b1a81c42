pub mod HeaderBytes
pub mod HeaderReading
pub mod Examples
pub mod Codes
pub mod Kinds
pub mod Flags
