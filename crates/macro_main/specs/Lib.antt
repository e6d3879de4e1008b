pub mod Answers
pub mod Outputs
