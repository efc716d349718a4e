pub mod Filing
pub mod Claims
