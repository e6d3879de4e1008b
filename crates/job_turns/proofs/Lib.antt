pub mod GoingOn
pub mod Turning
pub mod Taking
