pub mod Caches
pub mod Members
pub mod WordOffsets
