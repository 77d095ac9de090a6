pub mod Right
pub mod Found
pub mod Ends
pub mod Words
