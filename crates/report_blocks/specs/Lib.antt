pub mod Blocks
pub mod Causes
pub mod Chosen
pub mod Refusals
