pub mod Firsts
pub mod Unions
pub mod Faults
pub mod Settled
pub mod Some
pub mod Agrees
pub mod Found
