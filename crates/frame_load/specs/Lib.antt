pub mod Budget
pub mod Marks
pub mod Runs
pub mod Judging
pub mod Codes
