pub mod Values
pub mod TextSizes
pub mod Addresses
pub mod Faults
pub mod LaidOut
pub mod Layouts
pub mod Errors
