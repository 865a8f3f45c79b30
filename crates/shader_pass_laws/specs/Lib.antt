pub mod Disruptors
pub mod FlowLaws
pub mod OfTheStep
pub mod PairsFit
pub mod Refused
