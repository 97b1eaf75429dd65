-- The modules that contracts use.
pub mod Chunks
pub mod SingleRecords
pub mod Common
pub mod Events
pub mod Numbers
pub mod InputErrors
pub mod steps
