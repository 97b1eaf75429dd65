-- The specifications that contracts use.
pub mod AddressSpaces
pub mod Effects
pub mod Histories
pub mod NameHistories
pub mod Laws
pub mod Mappings
pub mod Processes
pub mod Ranges
pub mod Spaces
pub mod ThreadNames
pub mod steps
