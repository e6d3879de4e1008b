pub mod DummySteps
pub mod Parts
