pub mod Faults
pub mod Keyed
pub mod Tapes
