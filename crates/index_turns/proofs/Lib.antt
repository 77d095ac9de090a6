pub mod Striding
