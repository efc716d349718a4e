pub mod Coded
pub mod Claims
