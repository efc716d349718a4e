pub mod Homing
pub mod Showing
pub mod Room
pub mod Claims
