pub mod Waiting
pub mod Spans
pub mod Calls
pub mod Rings
