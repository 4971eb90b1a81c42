pub mod Shown
pub mod First
