pub mod Prepare
pub mod inner
