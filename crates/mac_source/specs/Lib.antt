pub mod Notes
pub mod Pieces
pub mod Sources
pub mod Marks
