pub mod Q
