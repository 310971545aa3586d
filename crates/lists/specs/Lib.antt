pub mod Lists
pub mod Pottosin
pub mod Compared
