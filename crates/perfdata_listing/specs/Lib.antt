pub mod ByTime
pub mod JitListing
pub mod Listing
pub mod PipeListing
pub mod steps
