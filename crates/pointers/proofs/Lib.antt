pub mod Unions
pub mod Places
pub mod Sinking
pub mod Placing
