pub mod Slots
pub mod SameSlots
pub mod Requests
pub mod SameRequests
