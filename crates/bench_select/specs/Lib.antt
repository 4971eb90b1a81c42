pub mod Bounds
pub mod Channels
pub mod Selecting
pub mod Selectors
pub mod Signals
pub mod Stamps
pub mod Viewed
