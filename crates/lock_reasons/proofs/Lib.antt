pub mod CauseLemmas
pub mod ReasonLemmas
