pub mod MetaPairs
pub mod EventLines
pub mod Decoding
pub mod ChunkLemmas
pub mod File2
pub mod V1Parts
pub mod V1Uniqueness
pub mod FileRecords
