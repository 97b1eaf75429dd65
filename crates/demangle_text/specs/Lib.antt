pub mod Cursor
pub mod Digits
pub mod Legacy
pub mod RustNames
pub mod Text
pub mod steps
