pub mod Rows
pub mod Table
pub mod Rewriting
pub mod Fetching
pub mod Examples
