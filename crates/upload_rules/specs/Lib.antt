pub mod Upload
pub mod Reader
pub mod Notes
pub mod Reading
pub mod Steps
pub mod Parts
pub mod Left
pub mod Claims
