pub mod Shapes
pub mod Behaves
pub mod Codes
