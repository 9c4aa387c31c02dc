pub mod Overlaps
pub mod Deciding
pub mod Determined
