pub mod Answering
pub mod DecidedLemmas
pub mod DecidedNeeds
pub mod DivergenceLemmas
pub mod Fitting
pub mod Growing
pub mod LayingOut
