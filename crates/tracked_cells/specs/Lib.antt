pub mod Names
pub mod Equivalences
pub mod Standing
pub mod Scalars
pub mod Untracked
pub mod Tracked
pub mod Laws
