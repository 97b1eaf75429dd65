pub mod Boundaries
pub mod Merge
pub mod Notes
pub mod PltFiles
pub mod PltParts
pub mod PltRelocations
pub mod Segments
pub mod SymbolTables
