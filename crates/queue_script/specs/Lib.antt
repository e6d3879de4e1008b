pub mod Options
pub mod Locks
pub mod Commands
pub mod WellFormed
pub mod Borrowed
pub mod Printing
pub mod WaitPairs
pub mod QueueScripts
