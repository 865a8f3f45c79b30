pub mod NameFacts
pub mod WellFormed
