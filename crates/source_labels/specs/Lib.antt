pub mod Labels
pub mod Places
pub mod Programs
pub mod Spots
