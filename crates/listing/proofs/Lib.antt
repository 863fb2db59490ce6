pub mod StreamLaws
pub mod ListingLaws
pub mod Unique
