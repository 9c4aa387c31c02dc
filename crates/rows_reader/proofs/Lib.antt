pub mod Storing
pub mod Reading
pub mod Determined
