pub mod Counts
pub mod Files
pub mod Sink
pub mod Store
pub mod Tallies
