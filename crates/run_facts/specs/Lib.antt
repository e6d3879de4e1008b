pub mod Typing
pub mod Ends
