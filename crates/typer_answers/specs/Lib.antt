pub mod Answers
pub mod Calls
pub mod Conversions
pub mod Laws
pub mod Layouts
pub mod Lines
pub mod Requests
pub mod Samples
