pub mod Moved
pub mod Finished
pub mod Claims
