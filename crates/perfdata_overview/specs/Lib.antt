-- The specifications that contracts use.
pub mod Events
pub mod Programs
pub mod Summaries
