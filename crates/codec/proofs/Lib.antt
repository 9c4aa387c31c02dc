pub mod Spelled
pub mod Reading
pub mod Shortest
pub mod Theorems
pub mod Writing
pub mod Determined
