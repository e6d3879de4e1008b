pub mod Bits
pub mod Blocks
pub mod Laws
pub mod Locks
pub mod Names
pub mod Steps
