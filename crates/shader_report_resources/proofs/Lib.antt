mod UsesLemmas
pub mod ValueLemmas
pub mod WordLemmas
mod WrittenLemmas
