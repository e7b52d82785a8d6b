pub mod Numbers
pub mod Layouts
