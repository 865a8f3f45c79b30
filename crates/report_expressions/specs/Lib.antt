pub mod Lines
pub mod Makers
pub mod Parents
pub mod Parts
pub mod Pieces
pub mod Texts
