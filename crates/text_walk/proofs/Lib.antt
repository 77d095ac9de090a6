pub mod Absolute
pub mod Buffer
pub mod Sum
pub mod Shift
pub mod Copying
pub mod Bodies
pub mod Loops
pub mod Edges
