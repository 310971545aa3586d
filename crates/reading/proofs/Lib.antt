pub mod Carried
pub mod Whole
pub mod Stages
