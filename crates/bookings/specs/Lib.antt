pub mod Bookings
pub mod Months
