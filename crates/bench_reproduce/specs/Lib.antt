pub mod Deeds
pub mod Hearing
pub mod Readings
pub mod Reproduced
pub mod Running
pub mod Sameness
