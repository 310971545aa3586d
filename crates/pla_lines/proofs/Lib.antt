pub mod Fronts
pub mod FirstWord
pub mod FirstLine
pub mod Numbers
pub mod Cubes
pub mod Hearing
