pub mod Copied
pub mod Grown
pub mod Laws
pub mod Registered
