-- The specifications that contracts use.
pub mod BuildIds
pub mod MappedFile
pub mod steps
