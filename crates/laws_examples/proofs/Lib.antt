pub mod Examples
pub mod Instance
