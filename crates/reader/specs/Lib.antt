pub mod Meanings
pub mod Notes
pub mod Trusting
pub mod Claims
