pub mod Bench
pub mod Permutation
pub mod Unique
