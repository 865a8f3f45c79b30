pub mod Laws
pub mod Reports
pub mod Texts
pub mod Reporting
