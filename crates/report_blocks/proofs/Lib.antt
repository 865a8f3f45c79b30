mod BlockLemmas
mod ChosenLemmas
