pub mod Outputs
pub mod Terminals
pub mod Writing
pub mod Jobs
pub mod Reports
pub mod Events
