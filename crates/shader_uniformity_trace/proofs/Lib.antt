pub mod ChainLemmas
pub mod TraceLemmas
pub mod LinkLemmas
pub mod ReasonLemmas
pub mod WalkLemmas
