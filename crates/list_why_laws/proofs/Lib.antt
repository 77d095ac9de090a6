pub mod Last
pub mod Saying
pub mod Telling
pub mod Joining
pub mod Driving
pub mod Examples
