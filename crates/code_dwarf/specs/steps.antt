pub mod Forms
pub mod LineHeaders
pub mod LineInstructions
pub mod LineMachine
pub mod LineReaders
pub mod LineRows
pub mod Numbers
pub mod Units
