pub mod Cases
pub mod Every
pub mod Areas
pub mod Beginnings
pub mod Without
pub mod Figures
pub mod Filled
