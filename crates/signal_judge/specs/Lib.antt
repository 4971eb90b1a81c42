pub mod Asked
pub mod Rules
pub mod Taking
pub mod Tallies
pub mod Verdicts
