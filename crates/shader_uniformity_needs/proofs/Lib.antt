pub mod BodyLemmas
pub mod FollowLemmas
pub mod NoteLemmas
pub mod SearchLemmas
