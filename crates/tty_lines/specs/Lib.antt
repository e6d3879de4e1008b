pub mod Breaks
pub mod Codes
pub mod Rings
