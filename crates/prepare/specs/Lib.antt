pub mod Checks
pub mod Prepared
pub mod Sizes
