pub mod Codes
pub mod Sinks
pub mod Writing
pub mod Sent
pub mod Putting
