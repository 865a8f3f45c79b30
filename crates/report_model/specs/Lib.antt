pub mod Analyzed
pub mod Fitting
