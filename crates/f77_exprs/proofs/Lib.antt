pub mod WordsLemmas
pub mod ConstantLemmas
pub mod Chains
mod Same
mod Steady
pub mod Depth
pub mod Shorter
