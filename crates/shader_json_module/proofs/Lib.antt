pub mod AccurateLemmas
pub mod PartsLemmas
pub mod Modules
