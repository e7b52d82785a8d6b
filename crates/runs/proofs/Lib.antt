pub mod Buffers
pub mod Compares
pub mod Exhibits
pub mod Growing
