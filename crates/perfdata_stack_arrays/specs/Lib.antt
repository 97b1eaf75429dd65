-- The modules that contracts use.
pub mod Arrays
pub mod Event
pub mod Events
pub mod Frames
pub mod HasTimes
pub mod Laws
pub mod Mappings
pub mod Names
pub mod Reading
pub mod Records
pub mod Stacks
pub mod Written
pub mod steps
