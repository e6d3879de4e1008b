pub mod Circles
pub mod ReadBack
pub mod Utf8
pub mod WantLemmas
