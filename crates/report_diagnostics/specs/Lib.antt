pub mod Codes
pub mod Diagnostics
pub mod Facts
pub mod Heads
pub mod Locations
pub mod Members
