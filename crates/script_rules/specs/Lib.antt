pub mod Text
pub mod Commands
pub mod Letters
pub mod Blanks
pub mod Answers
pub mod Feeding
pub mod Claims
