pub mod Find
pub mod Check
pub mod Rules
pub mod Claims
