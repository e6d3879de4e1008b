pub mod Timelines
pub mod Stops
pub mod Runs
pub mod Histories
pub mod Laws
pub mod Views
pub mod Recorded
pub mod Asking
