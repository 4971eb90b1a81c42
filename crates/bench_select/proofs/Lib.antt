pub mod Stamping
mod Bits
pub mod Passed
