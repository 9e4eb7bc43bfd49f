pub mod Fine
pub mod Uses
pub mod Cleared
pub mod Touched
pub mod Laws
