pub mod Segment
pub mod Ways
pub mod Post
pub mod Calls
pub mod Streamed
pub mod Noted
