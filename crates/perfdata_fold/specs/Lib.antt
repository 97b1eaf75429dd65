-- The specifications that contracts use.
pub mod Formats
