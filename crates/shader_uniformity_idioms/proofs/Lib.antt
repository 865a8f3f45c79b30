pub mod Decide
pub mod Decided
