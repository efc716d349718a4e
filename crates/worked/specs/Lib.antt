pub mod Worked
pub mod Claims
