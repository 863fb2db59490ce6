pub mod Field
pub mod Matrix
