pub mod Classes
pub mod Words
pub mod inner
