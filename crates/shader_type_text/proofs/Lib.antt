pub mod BuiltinFacts
mod Decimals
pub mod LookupLemmas
pub mod InsertionLemmas
pub mod Separators
pub mod Splits
pub mod TypeSpellings
