pub mod Examples
pub mod Idioms
pub mod Shapes
