pub mod Copies
pub mod Flags
pub mod Lines
pub mod Reports
