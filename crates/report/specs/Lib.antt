pub mod Slots
pub mod Report
