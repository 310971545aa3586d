pub mod Sayings
pub mod Runs
pub mod Drawings
pub mod Sound
pub mod Settled
pub mod Agrees
pub mod Back
