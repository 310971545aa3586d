pub mod Gregorian
pub mod Texts
pub mod Known
