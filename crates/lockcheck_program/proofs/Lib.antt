pub mod JobLemmas
pub mod ReadingLemmas
pub mod TextLemmas
pub mod EndingLemmas
pub mod ArgumentLemmas
