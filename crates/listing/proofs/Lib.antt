pub mod Lining
pub mod Claims
