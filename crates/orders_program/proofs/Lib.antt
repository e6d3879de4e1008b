pub mod Begun
pub mod Going
pub mod Leading
pub mod Recorded
