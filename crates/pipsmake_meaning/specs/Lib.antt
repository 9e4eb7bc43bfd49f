pub mod Values
pub mod Texts
pub mod Definitions
pub mod Rules
pub mod MemoCells
pub mod Making
pub mod Session
pub mod ResultEntries
