pub mod Chacha20
pub mod Siphash
pub mod Known
