pub mod ExactReports
pub mod LocationLemmas
pub mod Unique
