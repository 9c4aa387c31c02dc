pub mod Xor
pub mod Laws
pub mod Vectors
pub mod Determined
