pub mod Encodes
pub mod Listed
pub mod Reads
