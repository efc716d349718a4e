pub mod Lines
pub mod PlacedLines
pub mod Claims
