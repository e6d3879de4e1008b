pub mod Families
pub mod Fields
pub mod Keys
pub mod Operations
pub mod Tables
pub mod Text
