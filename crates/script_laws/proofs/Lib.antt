pub mod Along
mod TextLemmas
mod TakingLemmas
mod ReadBack
mod WordsBack
