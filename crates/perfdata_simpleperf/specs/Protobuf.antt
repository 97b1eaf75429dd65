-- Protobuf messages, as the protobuf encoding guide defines them.
pub mod WireFormat
pub mod Groups
pub mod Fields
pub mod Messages
pub mod Values
pub mod Nesting
