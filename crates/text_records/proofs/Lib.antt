pub mod Fronts
pub mod Rising
pub mod Climbing
pub mod Sorting
pub mod Merging
pub mod Writing
