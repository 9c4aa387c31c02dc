pub mod Places
pub mod Digits
pub mod Theorems
pub mod Determined
