pub mod Answers
pub mod Sorted
