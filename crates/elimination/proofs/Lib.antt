pub mod FormLaws
pub mod ElimSteps
pub mod ClosedLaws
pub mod LoneSteps
pub mod PairLaws
pub mod SearchSteps
