pub mod Steps
pub mod PositionSteps
