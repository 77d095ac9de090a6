pub mod Words
pub mod Engines
pub mod Calls
pub mod Demands
pub mod Drivers
