pub mod Sets
pub mod Directories
pub mod Changes
