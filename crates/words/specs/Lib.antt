pub mod Word
pub mod Write
pub mod Byte
pub mod Place
pub mod Part
pub mod Got
