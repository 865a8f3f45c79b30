pub mod Columns
pub mod Declarations
pub mod Structs
