pub mod Steps
pub mod Arguments
