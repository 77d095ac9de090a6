pub mod Renewing
pub mod Unique
