-- The modules that proofs of goals use.
pub mod ChunkLemmas
