pub mod ByTimeLemmas
pub mod CountingBufWriterLemmas
pub mod JitListingLemmas
pub mod ListingLemmas
pub mod NewlineCounts
pub mod PipeListingLemmas
