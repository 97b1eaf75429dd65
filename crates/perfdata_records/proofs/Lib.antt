pub mod Threads
pub mod NumberPrefixes
pub mod Ids
pub mod BuildIds
