pub mod CalleeLemmas
pub mod CallerLemmas
pub mod ChainLemmas
pub mod OriginLemmas
pub mod PassLemmas
