pub mod Clearing
pub mod SoundDeposits
pub mod DepositedWords
pub mod HandResults
pub mod AwakeJobs
pub mod Running
mod Copying
mod Calling
mod Telling
