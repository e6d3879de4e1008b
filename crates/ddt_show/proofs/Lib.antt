mod RadixLemmas
