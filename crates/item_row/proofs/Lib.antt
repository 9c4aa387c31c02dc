pub mod Words
pub mod Again
pub mod Replies
pub mod Determined
