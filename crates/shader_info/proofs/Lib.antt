pub mod DominatesLemmas
pub mod PairLemmas
pub mod UsedLemmas
