pub mod Counting
pub mod Looping
pub mod Tallied
pub mod Streaming
pub mod Telling
pub mod Claims
