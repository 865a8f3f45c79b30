pub mod Laws
pub mod Modules
pub mod Names
pub mod Samples
pub mod Types
