-- The modules that contracts use.
pub mod Numbers
pub mod Demangling
