pub mod Calls
pub mod Demands
pub mod Drivers
pub mod Examples
