pub mod Demangler
