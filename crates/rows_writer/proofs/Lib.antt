pub mod RowItems
pub mod Determined
