pub mod Flags
pub mod Rows
pub mod Samples
pub mod Wire
