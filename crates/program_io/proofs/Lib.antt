mod Appending
pub mod Whole
