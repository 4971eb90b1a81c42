pub mod Messages
pub mod Clean
