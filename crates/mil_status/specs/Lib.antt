pub mod Status
pub mod Block
