pub mod Growth
pub mod Kept
pub mod Latest
pub mod Packets
pub mod Reading
pub mod Recordings
pub mod Whole
