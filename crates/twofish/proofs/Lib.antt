pub mod ListLaws
pub mod HLaws
pub mod ScheduleLaws
pub mod PaddingLaws
pub mod AnswerLaws
pub mod Unique
