pub mod Outlines
pub mod Paths
pub mod Pointers
pub mod Sites
pub mod Stages
pub mod Tokens
pub mod Ways
pub mod Words
