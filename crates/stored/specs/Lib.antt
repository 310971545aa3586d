pub mod Told
pub mod Sections
pub mod Fields
pub mod Form
pub mod Answers
pub mod Parts
pub mod Sample
