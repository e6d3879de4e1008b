pub mod Xml
pub mod Words
pub mod Shapes
pub mod Graphs
pub mod Pictures
