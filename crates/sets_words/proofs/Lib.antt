pub mod Bits
pub mod Further
pub mod Visiting
pub mod Masks
