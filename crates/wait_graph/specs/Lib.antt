pub mod Pairs
pub mod LockWaits
pub mod Steps
pub mod Graphs
