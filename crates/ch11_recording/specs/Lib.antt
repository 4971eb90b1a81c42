pub mod Items
pub mod WrittenFile
pub mod Counting
pub mod Laws
pub mod Recording
