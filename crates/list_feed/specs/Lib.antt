pub mod Plain
pub mod Means
