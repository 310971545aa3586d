pub mod Places
pub mod Behinds
pub mod Fronts
pub mod Settled
pub mod Words
pub mod Decided
pub mod Bytes
pub mod Lefts
