pub mod Appending
pub mod Listing
pub mod SourceLines
pub mod SourceRows
