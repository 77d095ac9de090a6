pub mod App
pub mod Words
