pub mod Ranging
pub mod Coming
pub mod Trusting
pub mod Noting
pub mod Claims
