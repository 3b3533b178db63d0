pub mod Tables
pub mod Rules
pub mod Homes
pub mod Calls
pub mod Operations
