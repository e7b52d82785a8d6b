pub mod Zips
pub mod Words
pub mod Sizes
