pub mod Faced
pub mod Resent
