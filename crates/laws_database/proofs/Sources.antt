pub mod Read
pub mod Split
pub mod Spots
pub mod Calls
pub mod Moved
pub mod Pieces
pub mod Whole
pub mod Begins
