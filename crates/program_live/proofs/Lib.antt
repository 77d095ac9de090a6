pub mod Laws
pub mod Turning
pub mod Handing
