pub mod Arguments
pub mod Counts
pub mod DisruptorLemmas
pub mod EndsLemmas
mod Flow
pub mod ResultLemmas
pub mod FlowWords
mod Members
pub mod FlowViolation
pub mod Needs
pub mod Pairs
pub mod RootLemmas
pub mod StepKills
pub mod StepNeeds
pub mod StepUses
pub mod MissingResources
pub mod UsesLemmas
mod Varied
