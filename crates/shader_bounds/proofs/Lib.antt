pub mod ChainLemmas
pub mod FreeLemmas
pub mod AddLemmas
pub mod KnownLemmas
pub mod LawLemmas
pub mod SearchLemmas
pub mod SizeLemmas
