pub mod Adding
pub mod Frames
pub mod MappingWrites
pub mod Names
pub mod Reading
pub mod Records
pub mod Stacks
pub mod ProcessState
