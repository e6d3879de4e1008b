pub mod Ports
pub mod Transcripts
pub mod Serves
pub mod Hosts
pub mod Lines
pub mod Endings
pub mod Numbers
pub mod Printing
