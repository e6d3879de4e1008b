pub mod RunLemmas
pub mod AtOnce
pub mod GoingOn
pub mod HistoryLemmas
pub mod GoingBack
pub mod RecordedLemmas
pub mod AskingLemmas
