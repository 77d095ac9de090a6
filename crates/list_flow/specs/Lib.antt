pub mod Flow
pub mod Opening
pub mod inner
