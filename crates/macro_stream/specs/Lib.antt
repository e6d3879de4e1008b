pub mod Limits
pub mod Standing
pub mod Steps
