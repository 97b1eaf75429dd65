pub mod Comparisons
pub mod Header
pub mod PipeHeader
pub mod Section
pub mod steps
