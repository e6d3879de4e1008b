mod NumberLemmas
mod StepLemmas
mod TextLemmas
