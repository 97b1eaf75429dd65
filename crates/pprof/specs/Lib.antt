-- The specifications that contracts use.
pub mod Builders
pub mod Decoding
pub mod Labels
pub mod Messages
pub mod Pages
pub mod Rows
pub mod Samples
pub mod Strings
pub mod Tables
pub mod Texts
pub mod Wire
pub mod steps
