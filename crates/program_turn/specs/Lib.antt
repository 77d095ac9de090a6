pub mod State
pub mod Turn
