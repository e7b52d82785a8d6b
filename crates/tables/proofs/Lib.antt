pub mod Index
pub mod Lone
pub mod Settles
pub mod Turns
