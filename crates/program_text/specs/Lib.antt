pub mod Text
pub mod Hand
