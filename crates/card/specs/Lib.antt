pub mod Faults
pub mod Cards
pub mod Kinds
pub mod Layers
pub mod Weaving
pub mod Through
pub mod Windows
pub mod Pieces
