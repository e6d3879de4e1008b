pub mod Obeying
pub mod Showing
