pub mod Run
pub mod Reason
pub mod inner
