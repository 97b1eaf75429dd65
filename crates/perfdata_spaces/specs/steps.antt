pub mod Processes
pub mod Ranges
pub mod Spaces
pub mod ThreadNames
