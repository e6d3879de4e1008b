pub mod LegalLemmas
pub mod CopySteps
