pub mod ItemLaws
pub mod Opened
pub mod Through
pub mod Theorems
pub mod Ends
pub mod Reasons
pub mod Determined
pub mod OneReading
