pub mod Cbc
pub mod Record
pub mod Image
