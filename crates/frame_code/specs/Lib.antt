pub mod Routines
pub mod Table
pub mod Ranges
pub mod Loadable
pub mod Fields
pub mod Bytes
pub mod Reading
pub mod Codes
