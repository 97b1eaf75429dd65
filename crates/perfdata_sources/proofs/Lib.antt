pub mod Attrs
pub mod ConsumedLemmas
pub mod Numbers
pub mod RawDataPieces
pub mod ReadErrors
pub mod Seeks
pub mod Strings
pub mod VisibleLengths
