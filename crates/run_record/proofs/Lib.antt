mod Events
pub mod Parts
