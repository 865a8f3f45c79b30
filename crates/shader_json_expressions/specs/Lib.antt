pub mod Expressions
pub mod Literals
pub mod Names
pub mod Operators
