pub mod Prints
pub mod Heard
pub mod States
pub mod Parts
