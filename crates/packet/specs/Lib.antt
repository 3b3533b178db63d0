pub mod Layout
pub mod Headers
pub mod Reading
pub mod Writing
pub mod Streams
pub mod Examples
