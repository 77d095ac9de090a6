pub mod Laws
pub mod Order
pub mod Halving
pub mod Bytes
pub mod Placing
pub mod Unique
