pub mod Filling
pub mod Stepped
