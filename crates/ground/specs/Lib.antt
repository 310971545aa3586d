pub mod Decides
pub mod Every
pub mod Texts
pub mod Figures
pub mod Areas
