pub mod CompressedErrors
pub mod RecordSteps
