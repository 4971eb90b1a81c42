pub mod ControlsBack
pub mod MessageLines
pub mod Printed
pub mod Tokens
