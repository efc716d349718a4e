pub mod Room
pub mod Replies
pub mod Meanings
pub mod Steps
pub mod Parts
pub mod Claims
