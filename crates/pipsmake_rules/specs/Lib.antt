pub mod Kinds
pub mod Table
pub mod Keys
pub mod Neighbours
pub mod Needs
pub mod Walk
pub mod Laws
