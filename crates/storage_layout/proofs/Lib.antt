mod Example
pub mod BlockLaws
pub mod NumberingLaws
pub mod KeptLaws
pub mod EarlyLaws
pub mod AnswerLaws
pub mod GroupKeeps
pub mod GroupLaws
pub mod StayLaws
pub mod IsAssociatedLaws
pub mod EquivalenceLaws
pub mod RowLaws
