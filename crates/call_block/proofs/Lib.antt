pub mod AscizLemmas
pub mod BitLemmas
pub mod LockLemmas
pub mod NameLemmas
pub mod PointerLemmas
pub mod WantLemmas
