pub mod ReadBack
pub mod Scripts
pub mod Taking
