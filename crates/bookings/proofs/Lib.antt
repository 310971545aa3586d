pub mod Sequences
pub mod Bookings
pub mod After
