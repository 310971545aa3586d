pub mod Years
pub mod Slips
pub mod Settled
pub mod Decided
pub mod Forms
