pub mod Alike
pub mod Turning
pub mod Readying
pub mod Standing
pub mod Beginning
