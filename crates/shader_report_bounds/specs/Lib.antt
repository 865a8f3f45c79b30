pub mod Accesses
pub mod Bounds
pub mod Laws
pub mod Lines
pub mod Shown
pub mod Sizes
pub mod Texts
pub mod Tokens
