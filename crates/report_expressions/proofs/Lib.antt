pub mod SaidLemmas
pub mod ReachLemmas
pub mod MakerLemmas
pub mod TextLemmas
