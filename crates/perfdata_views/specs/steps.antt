pub mod Differences
pub mod Entries
pub mod FunctionTables
pub mod Lines
pub mod Numbering
pub mod PprofSamples
pub mod Trees
