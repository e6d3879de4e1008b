pub mod FaultLemmas
mod LineLemmas
mod RoundLemmas
