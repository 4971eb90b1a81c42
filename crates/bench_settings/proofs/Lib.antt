pub mod Lists
pub mod Ordered
pub mod Sorting
pub mod Adding
pub mod Judged
