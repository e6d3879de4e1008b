pub mod Effects
pub mod Filled
pub mod ReadBack
pub mod Readings
pub mod Runs
pub mod Served
pub mod Spelled
