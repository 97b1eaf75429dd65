pub mod SingleRecords
pub mod Events
