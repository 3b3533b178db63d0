pub mod Opcodes
pub mod Lists
pub mod Refused
