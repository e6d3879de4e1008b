pub mod Marked
pub mod Brackets
pub mod Macros
pub mod Rounds
