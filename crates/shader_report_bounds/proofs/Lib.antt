mod AccessLemmas
mod BoundsLemmas
mod NumberLemmas
mod RowLemmas
pub mod SizeLemmas
pub mod ValueLemmas
