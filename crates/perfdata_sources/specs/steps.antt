pub mod RelativeSeek
pub mod Source
