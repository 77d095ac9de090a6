pub mod Resend
pub mod Stream
pub mod Post
