pub use Rattle.effects.specs as effects
pub use Rattle.region_sets.specs as region_sets
pub use Rattle.call_equations.specs as call_equations
pub mod Pieces
pub mod Caller
pub mod Claims
pub mod Laws
pub mod Names
pub mod Values
pub mod Units
pub mod CalleePieces
pub mod Links
pub mod Callee
pub mod CalleeClaims
pub mod CalleeLaws
