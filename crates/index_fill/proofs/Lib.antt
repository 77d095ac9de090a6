pub mod Reading
pub mod Made
pub mod Filling
pub mod Refusing
pub mod Ready
