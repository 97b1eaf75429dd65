-- The definitions that the contracts cite.
pub mod Callers
pub mod ChainEnds
pub mod Chains
pub mod Expressions
pub mod Frames
pub mod WithoutCfi
pub mod Machines
pub mod Operations
pub mod FrameRegisters
pub mod Rules
pub mod Samples
pub mod Stacks
pub mod FrameSteps
pub mod Unwinders
pub mod ExpressionStack
pub mod steps
