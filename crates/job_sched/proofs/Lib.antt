pub mod Circle
pub mod Limits
pub mod Quanta
pub mod Sleepers
pub mod Turns
