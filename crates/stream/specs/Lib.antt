pub mod Sending
pub mod Rewriting
