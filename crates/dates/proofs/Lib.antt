pub mod Calendar
pub mod Known
pub mod Numbers
pub mod Dated
pub mod Decided
