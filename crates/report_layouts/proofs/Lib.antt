mod LineLemmas
mod StructLemmas
