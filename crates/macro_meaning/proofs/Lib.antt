pub mod Walks
pub mod Stands
pub mod Entries
pub mod Lists
