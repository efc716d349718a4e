pub mod Making
pub mod Calls
pub mod Claims
