pub mod Slot
pub mod Listing
pub mod Streams
