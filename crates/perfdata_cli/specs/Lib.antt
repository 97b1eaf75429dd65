-- The specifications that contracts use.
pub mod Args
pub mod Inputs
pub mod steps
