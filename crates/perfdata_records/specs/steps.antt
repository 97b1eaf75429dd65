pub mod HeaderAttr
pub mod DsoKey
