pub mod Shown
pub mod Told
pub mod Breaches
pub mod Found
pub mod Whys
pub mod Salvages
pub mod Sources
pub mod Claims
