pub mod Packets
pub mod Holds
pub mod Means
