pub mod Words
pub mod Pairs
pub mod Answers
pub mod Coded
pub mod Claims
