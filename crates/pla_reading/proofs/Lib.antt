pub mod Keeping
pub mod Ends
pub mod Lines
