pub mod Accepts
pub mod ReadBack
pub mod WrittenBack
pub mod Walks
