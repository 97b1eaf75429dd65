-- The definitions that the contracts cite.
pub mod Cies
pub mod Entries
pub mod Fdes
pub mod FrameTables
pub mod Instructions
pub mod Numbers
pub mod Pointers
pub mod Remembering
pub mod Rows
pub mod Sections
pub mod TableRows
pub mod Tables
pub mod steps
