pub mod Images
pub mod Sources
pub mod ScriptStates
pub mod Printing
pub mod Events
pub mod Undone
pub mod Heads
pub mod RunScripts
