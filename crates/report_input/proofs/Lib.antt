pub mod CodeLemmas
pub mod LocatedLemmas
pub mod SpanLemmas
pub mod ValueLemmas
