pub mod GrownLemmas
pub mod RegisterLemmas
