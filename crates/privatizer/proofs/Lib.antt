pub mod Steps
pub mod NameSteps
pub mod PrivateLaws
