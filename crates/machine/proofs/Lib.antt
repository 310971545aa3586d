pub mod Laid
pub mod AtHand
pub mod Pieces
pub mod Outputs
pub mod Steps
pub mod Heard
