pub mod Many
pub mod Pairs
pub mod Versions
pub mod Lawful
pub mod Images
pub mod Forward
pub mod Written
