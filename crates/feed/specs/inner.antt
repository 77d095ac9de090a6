pub mod Going
pub mod Tells
pub mod Told
