pub mod Lists
pub mod H
pub mod Schedule
pub mod Half
pub mod Answers
