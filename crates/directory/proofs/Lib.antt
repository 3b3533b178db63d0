pub mod Counting
pub mod Finding
