pub mod Ranges
pub mod Faults
pub mod Plans
pub mod StandsFor
pub mod Codes
