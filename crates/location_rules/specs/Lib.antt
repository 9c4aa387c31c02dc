pub mod Overlaps
pub mod Decisions
pub mod Row
pub mod Parts
