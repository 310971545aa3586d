pub mod Limits
pub mod Record
pub mod Sound
pub mod Told
pub mod Answers
pub mod Entries
pub mod Parts
