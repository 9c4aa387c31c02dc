pub mod Tests
pub mod Bytes
pub mod Place
pub mod Words
pub mod Writing
pub mod Theorems
pub mod Determined
