pub mod Adding
pub mod Taking
pub mod Terminals
