pub mod Kinds
pub mod Refusals
pub mod Messages
pub mod Checks
pub mod Lists
