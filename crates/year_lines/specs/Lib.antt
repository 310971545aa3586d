pub mod Slips
pub mod Parts
