pub mod Finding
pub mod Faults
pub mod Answers
pub mod Parts
