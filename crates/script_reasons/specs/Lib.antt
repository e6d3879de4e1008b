pub mod QueueLines
pub mod Explanations
pub mod Sentences
pub mod Pages
