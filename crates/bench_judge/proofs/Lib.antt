mod Forms
mod Moments
mod Holding
mod Latest
mod Passing
mod Whole
mod Tallying
pub mod Writing
mod FirstTold
pub mod Rereading
mod Showing
mod Behind
mod Cases
mod Putting
mod Losing
mod Missing
mod Skipping
