mod ImageLemmas
mod EventLemmas
mod HeadLemmas
