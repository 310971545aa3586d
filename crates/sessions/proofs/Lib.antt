pub mod Sessions
pub mod Outputs
