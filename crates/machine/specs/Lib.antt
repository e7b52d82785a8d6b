pub mod Checks
pub mod Files
pub mod Law
pub mod Machine
pub mod Makings
pub mod Runs
pub mod Worked
