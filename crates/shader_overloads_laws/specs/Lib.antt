pub mod Optimality
pub mod ScalarSets
