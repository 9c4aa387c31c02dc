pub mod Bytes
pub mod Refusing
pub mod Answers
pub mod Rows
pub mod Pieces
pub mod Private
