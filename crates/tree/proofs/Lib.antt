pub mod Searching
pub mod Testing
pub mod Visiting
pub mod Ruling
pub mod Depth
pub mod Weights
pub mod Judging
pub mod Claims
