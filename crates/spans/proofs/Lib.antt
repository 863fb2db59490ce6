pub mod BytesLaws
pub mod PartsLaws
pub mod RefusalLaws
pub mod Front
pub mod Unique
