pub mod Overlays
pub mod Sends
pub mod Rewrites
