pub mod Checked
pub mod Putting
pub mod ReadBack
