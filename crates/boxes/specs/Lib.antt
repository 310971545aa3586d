pub mod Sums
pub mod Boxes
pub mod Parts
