pub mod FactWords
pub mod Flags
pub mod Instructions
pub mod Seen
pub mod Standings
pub mod Steps
pub mod Waits
pub mod Words
