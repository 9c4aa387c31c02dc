pub mod Rows
pub mod Scans
pub mod Copies
pub mod Theorems
pub mod Rewrites
pub mod Determined
