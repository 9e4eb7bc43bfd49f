pub use Rattle.region_translation.specs.effects as effects
pub use Rattle.transformers.specs.transformer_algebra as transformer_algebra
pub use Rattle.transformers.specs.call_translation as call_translation
pub use Rattle.transformers.specs as transformers
pub use Rattle.region_translation.specs.region_sets as region_sets
pub use Rattle.region_translation.specs.call_equations as call_equations
pub use Rattle.region_translation.specs as region_translation
pub mod Rows
pub mod References
pub mod Reads
pub mod Calls
pub mod Simple
pub mod Arms
pub mod Loops
pub mod Known
pub mod Statement
pub mod Entry
pub mod Modules
pub mod Laws
