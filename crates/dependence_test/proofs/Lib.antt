pub mod Steps
pub mod VariableLaws
pub mod OrderLaws
pub mod RangeLaws
pub mod PairLaws
pub mod ConflictLaws
pub mod LoopBodySteps
pub mod BodySteps
