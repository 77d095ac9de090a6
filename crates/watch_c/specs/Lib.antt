pub mod Face
pub mod Resent
pub mod Segments
pub mod Why
