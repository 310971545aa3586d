pub mod Bits
pub mod Computed
