pub mod Callers
pub mod Chains
pub mod Origins
pub mod Ways
