pub mod Making
pub mod Parts
