pub mod Ran
pub mod Leaves
