pub mod Counted
pub mod Named
