pub mod AcceptedLemmas
mod CallLemmas
mod CollectLemmas
mod OwnerLemmas
mod SteadyLemmas
