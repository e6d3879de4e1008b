mod ReplayLemmas
mod VisitLemmas
mod WatchLemmas
mod CounterLemmas
mod EndLemmas
mod TurnLemmas
mod StartLemmas
mod TerminalLemmas
pub mod LockCallLemmas
