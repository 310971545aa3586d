pub mod Texts
pub mod Sayings
pub mod Reading
pub mod Writing
pub mod Answers
