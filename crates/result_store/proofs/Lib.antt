pub mod ListLaws
pub mod Outcomes
pub mod MemoCellLaws
pub mod RowLaws
pub mod StoreLaws
pub mod StampLaws
pub mod ResultLaws
