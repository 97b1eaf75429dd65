-- The modules that proofs of goals use.
pub mod ArrayWrites
pub mod Finding
pub mod Formats
pub mod NameSteps
pub mod Parsed
pub mod Returned
pub mod StateSteps
pub mod Walks
