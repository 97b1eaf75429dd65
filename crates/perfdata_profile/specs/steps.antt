pub mod Building
pub mod Caching
pub mod ChainRanges
pub mod Chains
pub mod Locating
pub mod Values
