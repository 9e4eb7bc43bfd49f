pub mod SmallLaws
pub mod FormLaws
pub mod RowLaws
pub mod ValueLaws
pub mod ConditionLaws
pub mod FormSteps
pub mod RowValues
