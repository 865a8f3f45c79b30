mod FaultLemmas
pub mod ListLemmas
pub mod TypedLemmas
pub mod PrefixLemmas
pub mod NextLemmas
