pub mod Pieces
pub mod Quotes
pub mod Scripts
