pub mod Adding
mod Building
mod Caching
mod Chains
pub mod Counting
mod Deciding
mod Erasing
pub mod Elements
pub mod Growing
mod Listing
mod Looking
mod Merging
mod Resolving
pub mod Searching
mod Summing
pub mod Valuing
