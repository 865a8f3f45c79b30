pub mod Bound
pub mod Interface
pub mod Workgroups
