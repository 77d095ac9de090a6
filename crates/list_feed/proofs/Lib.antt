pub mod Plain
pub mod Progress
pub mod Unique
pub mod Lawful
