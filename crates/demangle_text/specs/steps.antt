pub mod Cursor
pub mod Legacy
