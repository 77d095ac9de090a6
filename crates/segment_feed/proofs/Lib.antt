pub mod Looking
pub mod Enough
pub mod Hearing
pub mod Unique
pub mod Streams
pub mod Same
pub mod Said
pub mod Noting
