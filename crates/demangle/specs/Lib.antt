pub mod Demangler
pub mod Prefix
pub mod steps
