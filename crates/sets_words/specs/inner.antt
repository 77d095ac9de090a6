pub mod Further
pub mod Next
