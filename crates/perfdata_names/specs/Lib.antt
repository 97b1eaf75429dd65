-- The specifications that contracts use.
pub mod FileSymbols
pub mod steps
