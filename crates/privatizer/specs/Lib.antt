pub mod Functions
pub mod Uses
pub mod Names
pub mod Private
pub mod Claims
pub mod Views
