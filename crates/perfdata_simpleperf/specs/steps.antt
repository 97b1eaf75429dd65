pub mod MetaInfo
pub mod EventTypeInfo
