pub mod ListingLine
