mod CircleLemmas
mod StepLemmas
mod WordLemmas
pub mod WaitLemmas
