pub mod Walking
pub mod Packets
