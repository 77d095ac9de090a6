pub mod Circle
pub mod Parts
pub mod Words
pub mod Before
pub mod Streams
pub mod Carried
pub mod Unique
