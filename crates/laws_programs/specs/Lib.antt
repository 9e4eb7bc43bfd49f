pub use Rattle.storage_data.specs as storage_data
pub use Rattle.roundtrip_programs.specs as roundtrip_programs
pub mod Programs
pub mod Laws
pub mod Effects
pub mod Layout
pub mod Storage
pub mod SymbolTables
