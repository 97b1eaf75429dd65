pub mod BufferedReader
pub mod RingFilling
pub mod ReadBuffer
pub mod HeaderSteps
pub mod Ring
pub mod Seeking
