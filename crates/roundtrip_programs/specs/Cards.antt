pub mod Cards
pub mod Good
pub mod Laws
