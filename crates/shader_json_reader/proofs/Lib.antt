pub mod AnswerLemmas
pub mod GrammarLemmas
pub mod NumberLemmas
pub mod ShapeLemmas
pub mod StopLemmas
