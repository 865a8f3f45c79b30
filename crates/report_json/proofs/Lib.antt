pub mod FormLemmas
pub mod LineLemmas
pub mod SpellingLemmas
pub mod ValueLemmas
pub mod WritingLemmas
