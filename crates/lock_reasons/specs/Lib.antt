pub mod Causes
pub mod Meetings
pub mod Reasons
pub mod Ways
