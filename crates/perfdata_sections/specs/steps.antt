pub mod AttributeDescription
pub mod PmuMappings
pub mod EventIds
