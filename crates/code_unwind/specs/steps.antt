pub mod Callers
pub mod ChainEnds
pub mod Expressions
pub mod Operations
pub mod FrameSteps
pub mod ExpressionStack
