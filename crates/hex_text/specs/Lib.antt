pub mod Bytes
pub mod Reading
pub mod Writing
pub mod Inner
pub mod Faults
