pub mod Calls
pub mod Order
pub mod Slots
pub mod Pages
