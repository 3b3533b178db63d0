pub mod Traffic
pub mod Sizes
