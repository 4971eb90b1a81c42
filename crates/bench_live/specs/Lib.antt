pub mod Lines
pub mod Paces
pub mod Posting
pub mod Telling
