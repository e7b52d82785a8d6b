pub mod Beats
pub mod Writes
