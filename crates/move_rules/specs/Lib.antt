pub mod Passes
pub mod Moving
pub mod Moved
pub mod Finishing
pub mod Finished
pub mod Printed
pub mod Worked
pub mod Claims
