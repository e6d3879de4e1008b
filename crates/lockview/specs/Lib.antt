pub mod Rounds
pub mod Called
pub mod Faults
pub mod Pages
