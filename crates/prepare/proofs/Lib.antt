pub mod Halves
pub mod Opens
pub mod Resumed
pub mod Rising
