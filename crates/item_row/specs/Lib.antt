pub mod Row
pub mod Reply
