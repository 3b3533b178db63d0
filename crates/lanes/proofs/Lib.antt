pub mod Parts
pub mod Lands
