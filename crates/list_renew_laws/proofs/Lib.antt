pub mod Renewed
pub mod Segments
pub mod Lines
pub mod Driving
pub mod Examples
