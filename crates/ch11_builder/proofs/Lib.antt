pub mod SealedBytes
pub mod OneMore
pub mod Pieces
pub mod Cuts
pub mod OnlyCut
pub mod Runs
pub mod Readings
