pub mod Links
pub mod Room
pub mod Saved
pub mod Meanings
pub mod Notes
pub mod Ranged
pub mod Runs
pub mod Claims
