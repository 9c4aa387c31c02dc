pub mod Answers
pub mod Locations
