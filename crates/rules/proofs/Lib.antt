pub mod Scanning
pub mod Stacks
pub mod Rules
pub mod Saying
