pub mod RowsRead
pub mod RowsWritten
pub mod Theorems
pub mod Reasons
pub mod Determined
