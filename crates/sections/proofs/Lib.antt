pub mod Refused
pub mod Offsets
pub mod Own
pub mod Entries
