pub mod Facing
pub mod Resent
pub mod Segments
