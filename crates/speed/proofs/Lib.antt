pub mod Counting
pub mod Determined
