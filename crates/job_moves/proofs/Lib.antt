pub mod Resting
pub mod Alone
pub mod LoudTurns
pub mod Reaching
pub mod Plain
