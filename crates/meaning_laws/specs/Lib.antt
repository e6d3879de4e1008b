pub mod Example
pub mod Written
pub mod WrittenExample
pub mod WrittenLines
pub mod WrittenSource
