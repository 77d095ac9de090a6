pub mod Streams
pub mod Examples
