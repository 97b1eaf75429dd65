-- The specifications that contracts use.
pub mod Boxes
pub mod CountedSamples
pub mod Counts
pub mod Differences
pub mod Entries
pub mod EntryTrees
pub mod FlameBoxes
pub mod FunctionTables
pub mod Lines
pub mod PprofSamples
pub mod StackTrees
pub mod Trees
pub mod steps
