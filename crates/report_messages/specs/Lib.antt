pub mod Lists
pub mod Overloads
