pub mod InTurn
pub mod Packets
mod Refused
pub mod Placing
pub mod SkipLines
pub mod Steps
pub mod Streamed
pub mod Timeless
