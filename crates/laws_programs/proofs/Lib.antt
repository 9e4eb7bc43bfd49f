pub use Rattle.storage_data.proofs as StorageData
pub use Rattle.roundtrip_programs.proofs as RoundtripPrograms
pub mod Sources
pub mod Ordered
pub mod Numbers
mod Dummies
pub mod Names
pub mod Bounds
pub mod Fitting
pub mod Whole
pub mod Tables
mod Runs
pub mod Effects
pub mod Layouts
pub mod Storage
pub mod SymbolTables
