pub mod Tests
pub mod Pools
pub mod Texts
pub mod Rows
pub mod Counts
pub mod Frames
pub mod EmptySteps
pub mod Refused
