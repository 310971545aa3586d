pub mod Settled
pub mod Lines
pub mod Agrees
