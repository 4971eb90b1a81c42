pub mod SizesLine
pub mod Assembled
pub mod Letters
