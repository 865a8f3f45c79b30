pub mod Chains
pub mod Trace
pub mod Laws
pub mod Reasons
