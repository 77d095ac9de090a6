pub mod Scan
pub mod Rules
pub mod Words
