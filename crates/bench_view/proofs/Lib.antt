pub mod Lettering
pub mod Putting
pub mod Room
