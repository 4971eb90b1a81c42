pub mod Codes
pub mod Bench
pub mod Settled
pub mod Channels
pub mod Writing
pub mod World
pub mod OneChannel
pub mod OneChannelFaults
