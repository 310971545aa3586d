pub mod Between
pub mod Tests
pub mod Alters
pub mod Keeps
pub mod Above
pub mod Settled
