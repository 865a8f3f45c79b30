mod OutlineLemmas
pub mod ValueLemmas
mod WayLemmas
