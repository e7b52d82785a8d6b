pub mod Carried
pub mod Compared
pub mod Performed
pub mod Shown
pub mod Told
pub mod Witness
