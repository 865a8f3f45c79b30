pub mod AnswerLemmas
pub mod DeterminedExpressions
pub mod DeterminedOperators
pub mod PatternLemmas
pub mod VariantLemmas
