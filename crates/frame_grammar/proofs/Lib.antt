pub mod Pieces
pub mod Words
pub mod Conditions
pub mod Messages
pub mod Frames
pub mod FramesRead
pub mod Scripts
