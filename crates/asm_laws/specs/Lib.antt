pub mod Found
pub mod Laws
pub mod Faults
pub mod Codes
pub mod Example
