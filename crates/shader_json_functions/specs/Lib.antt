pub mod Functions
pub mod Next
pub mod Operations
pub mod Statements
