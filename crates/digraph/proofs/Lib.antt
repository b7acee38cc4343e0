pub mod Laws
pub mod LoopLaws
pub mod AnswerLaws
