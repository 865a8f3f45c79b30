pub mod Copies
pub mod Fit
pub mod Recorded
pub mod Uses
