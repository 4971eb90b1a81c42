pub mod Filling
pub mod Letters
pub mod Lines
pub mod Pages
pub mod Safe
