-- The specifications that contracts use.
pub mod Frames
pub mod Line
