pub mod Line
pub mod steps
