pub mod Playing
pub mod Comparing
pub mod Claims
