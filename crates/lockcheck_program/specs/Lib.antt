pub mod Reading
pub mod Reports
pub mod Checks
pub mod Arguments
pub mod Runs
