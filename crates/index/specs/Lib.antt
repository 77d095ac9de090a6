pub mod Entry
pub mod Stand
pub mod Right
pub mod Means
pub mod Words
