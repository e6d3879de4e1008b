pub mod Begun
pub mod Followed
pub mod Telling
pub mod Scripts
pub mod Answers
