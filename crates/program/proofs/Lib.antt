pub mod Feeding
pub mod Handing
pub mod Output
pub mod Arrived
