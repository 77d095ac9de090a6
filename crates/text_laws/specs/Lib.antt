pub mod Language
pub mod Records
pub mod Depth
pub mod Flows
pub mod Drivers
