pub mod TableLemmas
pub mod SearchLemmas
pub mod MeaningLemmas
pub mod DistinctLemmas
pub mod FamilyLemmas
pub mod KeyLemmas
