pub mod Apart
pub mod Fills
pub mod Littles
pub mod Pieces
