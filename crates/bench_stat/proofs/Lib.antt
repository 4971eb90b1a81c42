mod Marks
mod Appending
pub mod Counting
pub mod Addresses
pub mod Present
pub mod Histories
mod Stretched
pub mod Following
pub mod Streamed
mod Counted
mod Kinding
mod Telling
