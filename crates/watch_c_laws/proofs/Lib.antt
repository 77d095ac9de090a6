pub mod Facing
pub mod Resent
