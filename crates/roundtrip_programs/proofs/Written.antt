pub mod Moved
pub mod Pieces
pub mod Beginning
pub mod Starting
pub mod Read
pub mod Fronts
pub mod Joined
