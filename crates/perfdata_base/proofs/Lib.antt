pub mod Headers
pub mod PipeHeaders
