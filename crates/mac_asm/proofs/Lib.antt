pub mod PushLemmas
pub mod CellLemmas
pub mod PutLemmas
pub mod LineLemmas
pub mod FillLemmas
pub mod ImageLemmas
pub mod OutcomeLemmas
pub mod SymbolLemmas
