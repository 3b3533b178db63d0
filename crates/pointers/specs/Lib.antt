pub mod Rows
pub mod Layers
pub mod Examples
