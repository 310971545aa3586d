pub mod Digits
pub mod Writing
pub mod Patterns
pub mod Decimals
pub mod Pages
