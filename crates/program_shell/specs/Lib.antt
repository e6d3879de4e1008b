pub mod Outputs
pub mod Refusals
pub mod Reports
pub mod Texts
