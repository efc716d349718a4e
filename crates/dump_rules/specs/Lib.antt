pub mod Dump
pub mod Sentence
pub mod Rows
pub mod Rescue
pub mod Claims
