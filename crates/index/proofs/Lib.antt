pub mod Sizes
pub mod Halving
pub mod Hints
pub mod Following
pub mod Lawful
pub mod Words
pub mod Standing
