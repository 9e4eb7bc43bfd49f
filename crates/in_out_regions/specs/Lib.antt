pub use Rattle.array_regions.specs.effects as effects
pub use Rattle.array_regions.specs.transformer_algebra as transformer_algebra
pub use Rattle.array_regions.specs.call_translation as call_translation
pub use Rattle.array_regions.specs.transformers as transformers
pub use Rattle.array_regions.specs.region_sets as region_sets
pub use Rattle.array_regions.specs.call_equations as call_equations
pub use Rattle.array_regions.specs.region_translation as region_translation
pub use Rattle.array_regions.specs as array_regions
pub mod Kinds
pub mod Writes
pub mod Lists
pub mod ListClaims
pub mod Known
pub mod Calls
pub mod Contexts
pub mod Simple
pub mod Loops
pub mod Statement
pub mod Modules
