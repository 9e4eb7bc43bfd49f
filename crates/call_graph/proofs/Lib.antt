pub mod ActualLaws
pub mod TableLaws
pub mod OrderLaws
mod RankLaws
pub mod SizeLaws
pub mod LinkLaws
pub mod CycleLaws
pub mod EachLaws
mod CarrierSteps
