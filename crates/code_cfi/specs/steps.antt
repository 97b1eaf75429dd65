pub mod Cies
pub mod Entries
pub mod Fdes
pub mod Instructions
pub mod Numbers
pub mod Pointers
pub mod Rows
pub mod Tables
