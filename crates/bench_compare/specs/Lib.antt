pub mod Channels
pub mod Chosen
pub mod Compared
pub mod Counting
pub mod Differences
pub mod Laws
pub mod Passes
