pub mod Finite
pub mod Xor
pub mod Rotate
pub mod Bytes
pub mod Outcome
pub mod Unique
