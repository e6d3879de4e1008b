pub mod Listings
pub mod Plain
pub mod Rows
pub mod Shown
