pub mod Packs
pub mod Fronts
pub mod Holds
pub mod Steps
pub mod Nets
