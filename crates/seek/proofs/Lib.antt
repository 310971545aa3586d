pub mod Bits
pub mod Spare
pub mod Turn
pub mod Settled
