pub mod Calling
mod Counting
