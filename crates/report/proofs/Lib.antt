pub mod RefusalsInOrder
pub mod SlotLaws
pub mod CountLaws
pub mod AnswerLaws
pub mod Unique
pub mod Meaning
