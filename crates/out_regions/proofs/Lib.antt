pub mod Steps
pub mod StatementLaws
pub mod RestLaws
pub mod ModuleLaws
pub mod BesideLaws
pub mod SettledSteps
pub mod AppliedSteps
pub mod Fitting
