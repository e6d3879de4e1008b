pub mod NotHere
pub mod Transcripts
pub mod Commands
