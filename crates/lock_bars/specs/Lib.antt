pub mod Holds
pub mod Bars
pub mod Courses
pub mod Lanes
pub mod Names
pub mod Arrows
pub mod Columns
