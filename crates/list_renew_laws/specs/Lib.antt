pub mod Renewed
pub mod Segments
pub mod Lines
pub mod Drivers
pub mod Examples
