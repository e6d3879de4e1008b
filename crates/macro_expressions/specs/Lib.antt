pub mod Reading
pub mod Operations
pub mod Values
