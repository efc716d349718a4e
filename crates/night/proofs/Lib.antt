pub mod Stepping
pub mod Parts
pub mod Sought
pub mod Breached
pub mod Examined
pub mod Finding
pub mod Saving
pub mod Claims
