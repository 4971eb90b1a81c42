pub mod BlockStatus
pub mod Forms
pub mod Layouts
pub mod Replies
pub mod Stamps
