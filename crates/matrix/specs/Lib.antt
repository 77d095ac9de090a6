pub mod Matrix
pub mod Means
pub mod Words
pub mod inner
