pub mod Apart
pub mod Index
pub mod Settled
pub mod Views
