pub mod Settled
pub mod Sequences
