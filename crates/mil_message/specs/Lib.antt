pub mod Request
pub mod Rules
pub mod Forms
pub mod World
pub mod Parts
pub mod Codes
