pub mod ListLaws
pub mod PatchedLaws
pub mod Unique
pub mod Series
