pub mod AreaLemmas
pub mod BlockStore
pub mod Growth
pub mod Moved
pub mod StoreLemmas
pub mod Packing
pub mod Sums
pub mod Views
