pub mod Measuring
pub mod Loading
pub mod Telling
pub mod Writing
pub mod Claims
