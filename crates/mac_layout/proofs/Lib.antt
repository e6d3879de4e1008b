pub mod ValueLemmas
pub mod LayoutLemmas
