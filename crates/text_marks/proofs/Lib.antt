pub mod Tokens
pub mod Passing
