pub mod Texts
pub mod Lines
pub mod Listings
pub mod Rewriting
