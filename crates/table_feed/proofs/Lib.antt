pub mod Halting
pub mod Exact
pub mod Taking
pub mod Stepping
pub mod Feeding
pub mod Rising
pub mod Unique
pub mod Lawful
