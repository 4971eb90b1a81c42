pub mod Beside
pub mod Places
pub mod Planning
