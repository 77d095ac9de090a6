pub mod Words
pub mod Said
pub mod Told
pub mod Drivers
pub mod Examples
