pub mod FaultKeys
pub mod LineEnds
pub mod LineSteps
