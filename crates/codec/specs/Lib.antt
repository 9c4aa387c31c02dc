pub mod Spelling
pub mod Number
pub mod Shortest
pub mod Private
