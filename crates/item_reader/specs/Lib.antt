pub mod Rows
pub mod Steps
pub mod Cursor
pub mod Reader
pub mod Stepping
