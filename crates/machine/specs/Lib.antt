pub mod Rows
pub mod Machine
pub mod Answers
pub mod Pieces
pub mod Steps
pub mod AtHand
pub mod Heard
pub mod Programs
