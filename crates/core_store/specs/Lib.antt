pub mod AreaWords
pub mod BlockMeaning
pub mod Cores
pub mod Fitted
pub mod Layout
pub mod Plain
