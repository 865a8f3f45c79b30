pub mod Headings
pub mod Resources
pub mod Summaries
