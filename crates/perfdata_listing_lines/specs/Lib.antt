pub mod CountingBufWriter
pub mod LineText
pub mod ListingLine
pub mod Output
pub mod steps
