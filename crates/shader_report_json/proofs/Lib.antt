pub mod PairLemmas
mod TakeLemmas
pub mod ValueLemmas
