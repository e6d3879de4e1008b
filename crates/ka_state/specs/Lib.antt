pub mod Memory
pub mod Copies
pub mod Registers
pub mod Outcomes
