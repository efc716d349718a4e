pub mod Agreeing
pub mod Whole
pub mod Comparing
pub mod Claims
pub mod Steps
