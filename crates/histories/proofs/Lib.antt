pub mod Numbers
pub mod Kept
pub mod Goods
pub mod Histories
pub mod Afresh
pub mod Travels
