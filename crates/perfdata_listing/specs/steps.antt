pub mod ByTime
pub mod JitListing
pub mod Listing
