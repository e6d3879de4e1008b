pub mod TestLemmas
pub mod RequestLemmas
pub mod JobLemmas
pub mod PairLemmas
pub mod StepLemmas
pub mod KeeperLemmas
