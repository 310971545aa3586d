pub mod Histories
pub mod Travels
