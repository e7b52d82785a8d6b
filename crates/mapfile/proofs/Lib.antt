pub mod Landings
pub mod Listed
pub mod Puts
pub mod Written
