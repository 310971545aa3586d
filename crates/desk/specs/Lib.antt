pub mod Prints
pub mod Heard
pub mod Sample
pub mod States
pub mod Parts
