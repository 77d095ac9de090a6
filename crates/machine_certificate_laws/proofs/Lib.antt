pub mod Next
pub mod Alike
pub mod Covered
pub mod Examples
pub mod Instance
pub mod Driving
