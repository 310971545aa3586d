pub mod Filled
pub mod Given
pub mod Laid
pub mod Settled
pub mod Agrees
