pub mod BodyFields
pub mod Features
pub mod IdCache
pub mod ParseInfo
pub mod RecordFields
