pub mod Compile
pub mod Words
pub mod inner
