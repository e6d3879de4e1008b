pub mod HoldLemmas
pub mod CourseLemmas
pub mod BarLemmas
pub mod EachJob
