pub mod Sources
pub mod Traces
pub mod Keeping
pub mod Backing
pub mod Placed
pub mod Explained
pub mod Finding
