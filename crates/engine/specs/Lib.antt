pub mod Running
pub mod Steps
pub mod View
