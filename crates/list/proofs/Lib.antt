pub mod Listed
pub mod Letters
pub mod Steps
pub mod Quick
pub mod Named
pub mod Highest
pub mod Copied
pub mod Unique
