-- Definitions.
pub mod Frames
pub mod steps
