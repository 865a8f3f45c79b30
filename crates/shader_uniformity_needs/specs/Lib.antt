pub mod Needs
pub mod Notes
pub mod Passes
pub mod Search
pub mod Violations
