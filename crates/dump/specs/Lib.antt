pub mod Measures
pub mod Claims
