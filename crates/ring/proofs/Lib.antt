pub mod Turns
pub mod Moves
