pub mod Product
pub mod Rows
pub mod Unique
