pub mod Sources
pub mod Written
