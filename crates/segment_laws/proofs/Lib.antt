pub mod Streams
pub mod Tied
pub mod Steady
pub mod Standing
pub mod Refusing
pub mod Examples
