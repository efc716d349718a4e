pub mod Keeping
pub mod Reading
pub mod Filing
pub mod Claims
