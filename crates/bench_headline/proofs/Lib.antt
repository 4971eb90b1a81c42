pub mod Held
pub mod Packets
pub mod Written
pub mod Channels
pub mod Agreeing
pub mod Living
