pub mod Texts
pub mod Results
pub mod Outputs
pub mod Steps
pub mod Answers
pub mod Samples
pub mod Forms
