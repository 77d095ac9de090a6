pub mod Finding
pub mod Feeding
pub mod Saving
