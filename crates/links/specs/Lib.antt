pub mod Turns
pub mod Balancing
pub mod Spots
pub mod Linking
pub mod Claims
