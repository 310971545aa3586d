pub mod Patterns
pub mod Orders
pub mod Settled
pub mod Forms
pub mod Decided
