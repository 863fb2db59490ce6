pub mod Rounds
pub mod Block
