pub mod Lent
pub mod Private
