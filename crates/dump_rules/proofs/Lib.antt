pub mod Sentences
pub mod Rowing
pub mod Measuring
pub mod Dumping
pub mod Printing
pub mod Room
pub mod Rescuing
pub mod Claims
