pub mod Split
pub mod Means
pub mod inner
