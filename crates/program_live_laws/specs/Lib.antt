pub mod Following
pub mod Killed
pub mod Segments
pub mod Lists
