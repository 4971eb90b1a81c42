pub mod Axis
pub mod Chosen
pub mod Labels
pub mod Lanes
pub mod Rhythm
