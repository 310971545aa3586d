pub mod Entries
pub mod Moves
pub mod Touched
pub mod Thirds
pub mod Shifts
