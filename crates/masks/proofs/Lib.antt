pub mod Digits
pub mod Counting
pub mod MaskLaws
pub mod Marking
pub mod NextLaws
pub mod Unique
