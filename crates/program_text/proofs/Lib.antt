pub mod Texts
pub mod Handed
pub mod Arrays
