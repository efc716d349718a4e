pub mod Reading
pub mod Endian
pub mod Claims
