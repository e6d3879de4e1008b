pub mod PortLemmas
pub mod ServeLemmas
pub mod LineLemmas
pub mod NumberLemmas
pub mod FrontLemmas
pub mod AsciiLemmas
pub mod OctalLemmas
