pub mod Finding
pub mod Calling
