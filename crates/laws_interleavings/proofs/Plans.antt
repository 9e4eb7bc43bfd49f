pub mod Fine
pub mod Uses
pub mod MarkedStrict
pub mod Cleared
pub mod Touching
pub mod TouchedRuns
pub mod Ranges
