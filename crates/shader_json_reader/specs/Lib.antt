pub mod Answers
pub mod Errors
pub mod Grammar
pub mod Laws
pub mod Numbers
pub mod Parts
pub mod Shapes
