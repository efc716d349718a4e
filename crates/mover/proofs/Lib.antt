pub mod Passing
pub mod Heading
pub mod Joining
pub mod Written
pub mod Movable
pub mod Moves
pub mod Turns
pub mod Claims
