pub mod FileId
pub mod Mmap
pub mod Mmap2
pub mod EventFormat
pub mod Event
