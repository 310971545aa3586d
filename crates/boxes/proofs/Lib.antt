pub mod Sums
pub mod Boxes
pub mod Choices
pub mod Masks
pub mod Numbers
pub mod Highest
pub mod Count
pub mod Looked
