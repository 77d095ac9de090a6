pub mod Comparing
pub mod Sorting
pub mod Agreeing
pub mod Recorded
pub mod Certified
pub mod Accepts
pub mod Following
pub mod Unique
