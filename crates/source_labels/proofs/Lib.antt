mod Blocks
pub mod Nearby
