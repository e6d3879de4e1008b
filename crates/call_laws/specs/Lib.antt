pub mod DataWords
pub mod Deliveries
pub mod HighestAddresses
pub mod Sleeps
pub mod Takes
pub mod TerminalWaits
