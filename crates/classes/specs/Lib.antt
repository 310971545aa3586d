pub mod Standings
pub mod Sound
pub mod Parts
