pub mod Checked
pub mod Indexed
pub mod Typed
